pub mod LastOf
pub mod OneMore
pub mod StepsMore
