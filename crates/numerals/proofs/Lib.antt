pub mod RenderLaws
pub mod PlainLaws
pub mod PlainBack
