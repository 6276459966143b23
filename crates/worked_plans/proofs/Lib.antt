mod Tests
mod WordAnswers
