pub mod Catalogued
