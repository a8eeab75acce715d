pub mod SavingLemmas
