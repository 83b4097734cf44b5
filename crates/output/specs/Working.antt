-- A finished stage on its way out: judged, put and handed over.
pub mod Judging
pub mod Handing
pub mod Putting
pub mod Expanded
