mod Bracketed
mod Texts
