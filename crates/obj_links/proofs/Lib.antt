mod Appended
mod Edges
