mod Vectors
mod Derived
mod Choices
mod Indexes
mod Intersections
