pub mod KeptOfDomain
