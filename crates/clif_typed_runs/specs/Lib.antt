pub mod ValuesFit
pub mod Laws
