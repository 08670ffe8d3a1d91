pub mod StandingsCoded
