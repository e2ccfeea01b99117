-- Laws of texts: the text of a configuration.
pub mod Texts
pub mod Numbers
