mod Around
mod Days
mod Early
mod Lawful
mod Locks
mod Places
mod Refused
mod Standing
