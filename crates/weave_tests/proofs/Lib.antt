mod Lists
mod Serving
mod Keeping
