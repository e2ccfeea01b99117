-- Document 01, "The parts, and how many": the tables of a configuration, and what depends on its edition.
pub mod Editions
pub mod Table
pub mod Tables
pub mod Lists
