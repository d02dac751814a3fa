mod Cuts
mod Lists
mod TrashItems
