pub mod StepsNumbered
