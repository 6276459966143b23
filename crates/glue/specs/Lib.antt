pub mod Gluing
