pub mod Translations
