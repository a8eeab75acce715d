mod Holding
mod Without
mod Steps
mod PartsSeen
