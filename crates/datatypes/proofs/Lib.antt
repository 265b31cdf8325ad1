mod QuestionLaws
mod FactLaws
