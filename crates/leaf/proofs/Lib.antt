pub mod Pictured
pub mod RoomLaws
pub mod SheetLaws
