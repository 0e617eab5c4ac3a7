mod Events
mod Noted
mod Owed
