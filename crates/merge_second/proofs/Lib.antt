pub mod SecondAnswered
