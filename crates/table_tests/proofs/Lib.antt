mod Asking
mod FirstCores
mod PartsAsking
