pub mod GeneratedPage
