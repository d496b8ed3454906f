mod Marks
mod Meaning
mod Molecules
mod Namings
mod Stages
mod Unique
mod UniqueMol
