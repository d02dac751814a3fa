pub mod HintForm
pub mod PaddedKeys
pub mod SignedLocator
pub mod SignedToken
