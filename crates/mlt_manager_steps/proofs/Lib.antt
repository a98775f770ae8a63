pub mod StepsTexts
