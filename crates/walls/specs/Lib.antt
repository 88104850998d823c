pub mod Articles
