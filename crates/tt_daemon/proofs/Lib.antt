mod Following
mod Fusing
mod Spans
