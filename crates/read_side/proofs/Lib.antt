pub mod SideBytes
pub mod SideStruct
