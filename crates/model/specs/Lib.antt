pub mod Said
pub mod Inbox
pub mod Outbox
pub mod Box
pub mod Listed
pub mod Promised
