pub mod LiteralTexts
