pub mod Weights
pub mod Extending
pub mod KeptViews
pub mod NumberedViews
