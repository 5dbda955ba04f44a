pub mod GeneratedLibrary
