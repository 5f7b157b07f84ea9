-- A round record's lists as words, in the words of the rules.
pub mod Lists
