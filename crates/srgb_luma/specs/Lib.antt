pub use Rattle.page_model.specs.Light
