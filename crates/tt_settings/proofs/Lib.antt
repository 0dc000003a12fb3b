mod Asking
mod Behind
mod Decimals
mod Items
mod Labels
mod Spellings
