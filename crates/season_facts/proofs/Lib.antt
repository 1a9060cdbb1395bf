mod Absent
mod ClubFacts
mod Found
pub mod KeptFacts
mod StillThere
