mod FreshAreOne
mod FreshAreThere
mod Gathered
mod SameState
mod Stepped
