-- What stands at the front of some bytes: the words of `tt_text`.
pub use Rattle.tt_text.specs.Reading.{ReadsNothing, Reads, ReadsUpTo, Anything, NoDigit, BeginsWith, NoWord, IsNumber, AreNumbers}
