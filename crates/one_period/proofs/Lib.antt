pub mod PeriodLaws
pub mod OneAnswer
pub mod Origins
