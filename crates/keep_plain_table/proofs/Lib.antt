mod Renewals
mod Versions
