mod BadItems
mod Lists
mod Misfits
mod Numbers
mod Objects
mod Texts
mod Trees
