pub mod OneAnswer
pub mod OneAnswerLaws
pub mod PriceOf
pub mod FunctionLaws
pub mod FileLaws
pub mod IdleLaws
