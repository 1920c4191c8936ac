pub mod BookNames
pub mod Courses
pub mod NameCourses
pub mod Names
pub mod Reopenings
pub mod Retries
pub mod SameRows
pub mod StoredNames
