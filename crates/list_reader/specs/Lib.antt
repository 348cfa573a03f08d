pub mod ReadInclude
