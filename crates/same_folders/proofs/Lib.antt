pub mod Alike
mod FileParts
mod LinesRead
mod TablesAhead
