pub mod GrammarStates
pub mod HintText
pub mod JoinedParts
pub mod Lists
pub mod LongestPrefix
pub mod ParsedPrefix
pub mod ParserStates
