mod Reading
mod Unsaid
