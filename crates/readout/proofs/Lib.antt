pub mod PieceChecked
