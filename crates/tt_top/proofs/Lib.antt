mod Appending
mod Parts
