pub mod StepsNamed
