pub mod PagesLemmas
mod FateFacts
