mod Numbered
mod Placed
mod Remarks
mod Standing
