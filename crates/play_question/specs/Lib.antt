pub mod QuestionPlayed
