mod LimitsKept
mod TinyAccepted
mod TinyRules
mod Witness
mod RunWitness
