-- What holds of every run, searched back.
pub mod Lasting
pub mod Places
pub mod Ageing
pub mod Judging
pub mod Clocks
pub mod Origins
pub mod Answering
pub mod PollTimes
pub mod Stating
pub mod Fusing
pub mod FusionTimes
pub mod Meeting
pub mod Sound
pub mod Sight
pub mod Placing
pub mod Legal
