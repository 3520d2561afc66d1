pub mod RoomLooked
